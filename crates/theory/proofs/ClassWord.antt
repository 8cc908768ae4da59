-- Laws of what specs/ClassWord.antt defines.
pub mod Laws
pub mod Reading
pub mod Identity
