-- Laws of what specs/OldForm.antt defines.
pub mod Laws
