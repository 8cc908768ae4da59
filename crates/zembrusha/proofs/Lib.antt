pub mod Unique
pub mod Session
