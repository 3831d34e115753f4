-- Laws of the crate, for the functions here and for the crates above.
pub mod Quotients
