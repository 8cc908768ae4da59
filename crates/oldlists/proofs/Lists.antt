-- Laws of what specs/Lists.antt defines.
pub mod Laws
