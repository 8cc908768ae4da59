-- What only the code needs: definitions that the contracts of private functions cite. Nobody has to believe them.
pub mod Displacements
pub mod Places
pub mod Columns
