pub mod Indexes
pub mod Ranks
pub mod Unique
