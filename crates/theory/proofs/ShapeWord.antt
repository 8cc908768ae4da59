-- Laws of what specs/ShapeWord.antt defines.
pub mod Good
pub mod Flips
pub mod Laws
pub mod Words
pub mod InFront
pub mod Shifting
pub mod Reading
pub mod Conjugate
pub mod Counts
pub mod Complement
