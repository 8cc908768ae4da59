-- Laws of what specs/Partition.antt defines.
pub mod Laws
