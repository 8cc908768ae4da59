-- Documents 01 and 02, read from here: each file says which paragraph it states, and proofs/ has the laws of each.
pub mod Basics
pub mod Limits
pub mod Partition
pub mod Digits
pub mod ShapeWord
pub mod ClassWord
pub mod Bounds
pub mod ClassData
pub mod Character
pub mod Rules
pub mod Hooks
pub mod Frobenius
pub mod Listing
pub mod Column
pub mod Refusals
pub mod OldForm
