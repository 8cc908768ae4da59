-- What the calls that the test programs share promise.
pub mod Numbers
pub mod Tallies
