-- Laws of what specs/Basics.antt defines.
pub mod Laws
pub mod AtPlace
pub mod Integers
pub mod Keep
