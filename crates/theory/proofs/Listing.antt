-- Laws of what specs/Listing.antt defines.
pub mod Laws
pub mod Order
pub mod Ranks
pub mod Words
pub mod Sizes
