-- Laws of what specs/ClassData.antt defines.
pub mod Laws
pub mod Periods
