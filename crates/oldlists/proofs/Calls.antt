-- Laws of what specs/Calls.antt defines.
pub mod Laws
