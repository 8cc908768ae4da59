-- Laws of what specs/Reading.antt defines.
pub mod Lines
