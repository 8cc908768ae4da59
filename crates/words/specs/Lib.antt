-- What the calls on one partition promise.
pub mod Answers
pub mod Calls
pub mod Parts
pub mod Private
