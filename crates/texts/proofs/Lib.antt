-- Laws of the crate, for the crates above and for the functions here.
pub mod Decimals
pub mod DecimalsShort
pub mod Putting
