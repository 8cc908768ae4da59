-- Laws of what specs/Digits.antt defines.
pub mod Laws
pub mod LastOne
pub mod Low
pub mod Bits
