-- Laws that several proofs use.
mod Words
mod Own
mod Told
mod NumberLines
mod Settled
mod Lists
mod ListLines
mod Counted
mod WaitingLines
mod Standing
mod Heads
mod GatheredHeads
mod AllLines
mod CoefficientLines
mod Saving
mod Loading
mod GatheredLoading
pub mod Unique
