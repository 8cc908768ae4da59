-- Laws of what specs/Frobenius.antt defines.
pub mod Spreads
pub mod Falling
pub mod Laws
pub mod HookLengths
