-- What the calls of the listing promise.
pub mod Calls
pub mod Private
