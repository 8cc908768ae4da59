-- The examples of document 01, E1 to E13, of the definitions.
pub mod Examples
