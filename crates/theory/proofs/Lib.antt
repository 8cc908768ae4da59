-- The mathematics of documents 01 and 02: the laws of what specs/ defines, in files of the same names.
pub mod Basics
pub mod Partition
pub mod Digits
pub mod ShapeWord
pub mod ClassWord
pub mod Bounds
pub mod ClassData
pub mod Character
pub mod Rules
pub mod Hooks
pub mod Frobenius
pub mod Listing
pub mod Column
pub mod Refusals
pub mod OldForm
