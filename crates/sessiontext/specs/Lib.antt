-- What it promises to put a session away and to take it up again (document 02, P1).
pub mod SessionText
pub mod Reading
pub mod Calls
pub mod Examples
pub mod Private
