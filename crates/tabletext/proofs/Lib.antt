-- Laws that several proofs use, and the theorem that no second outcome meets the contract.
mod Answered
mod Classes
pub mod Unique
