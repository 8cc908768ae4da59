-- What the calls on lists of shapes promise.
pub mod Lists
pub mod Calls
pub mod Private
