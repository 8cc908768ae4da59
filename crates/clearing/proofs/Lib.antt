pub mod Zeros
pub mod ZerosBehind
pub mod Unique
