-- Laws of the crate, for the crates above and for the functions here.
pub mod Determined
pub mod Steps
