-- Laws of what specs/Run.antt defines.
pub mod Kept
pub mod Back
pub mod Demand3
pub mod Modes
pub mod Always
pub mod Counted
pub mod Resumed
