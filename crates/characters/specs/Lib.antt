-- What the calculator's calls promise: each file says which paragraph of document 01 it states.
pub mod Calls
pub mod Watch
pub mod Private
