-- Laws that several proofs use, and the theorems that no second outcome meets a contract.
mod ListLoops
pub mod Unique
