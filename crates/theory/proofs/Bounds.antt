-- Laws of what specs/Bounds.antt defines.
pub mod Laws
