-- What the exports give of the calls' answers.
pub mod Exports
pub mod Session
