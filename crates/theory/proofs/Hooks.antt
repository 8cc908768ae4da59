-- Laws of what specs/Hooks.antt defines.
pub mod Walk
pub mod Laws
pub mod Words
pub mod Apart
pub mod Betas
pub mod Rule
pub mod Evaluation
pub mod Bounds
pub mod Degrees
pub mod Flipped
pub mod Associates
pub mod Marks
