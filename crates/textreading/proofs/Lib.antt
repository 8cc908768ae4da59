-- Laws that proofs use, and the theorems that no second outcome meets a contract.
mod Found
mod Newlines
mod Pieces
pub mod Reading
pub mod Unique
