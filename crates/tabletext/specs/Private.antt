-- What only the code needs: laws of how its input is read. Nobody has to believe them.
pub mod Reading
