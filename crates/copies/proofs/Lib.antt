-- Laws of the definitions, for the crates above.
pub mod Frames
pub mod ListingBits
pub mod Turns
