-- Laws of what specs/Hooks/Marks.antt defines.
pub mod Laws
pub mod Walk
pub mod Stretch
