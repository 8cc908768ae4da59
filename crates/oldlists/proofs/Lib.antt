pub mod Taking
pub mod Calls
pub mod Lists
pub mod Unique
