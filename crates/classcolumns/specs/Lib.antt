-- What the call for a column promises.
pub mod Calls
pub mod Private
