-- Laws of what specs/Refusals.antt defines.
pub mod Laws
