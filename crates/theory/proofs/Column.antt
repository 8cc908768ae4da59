-- Laws of what specs/Column.antt defines.
pub mod Laws
