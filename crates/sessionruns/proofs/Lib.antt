-- What is true of every run, and of every session (documents 01 and 02).
pub mod Run
