-- Laws of what specs/Character.antt defines.
pub mod Terms
pub mod Alternating
pub mod Lowered
pub mod Ground
pub mod Counted
pub mod Betas
pub mod Order
