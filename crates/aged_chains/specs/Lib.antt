-- Definitions of this crate.
pub mod Aged
pub mod Parts
