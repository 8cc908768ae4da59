-- Laws of what specs/Step.antt defines.
pub mod Strike
pub mod Named
pub mod Laws
pub mod Previews
pub mod Gathered
