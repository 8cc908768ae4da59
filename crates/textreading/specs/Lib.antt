-- How numbers, lists and lines are read back from bytes.
pub mod Reading
