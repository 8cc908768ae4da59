pub mod WordPairs
pub mod Unique
