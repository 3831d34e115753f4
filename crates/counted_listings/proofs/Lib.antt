-- Laws of this crate.
pub mod Filling
