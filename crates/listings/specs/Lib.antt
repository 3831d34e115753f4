-- Definitions of this crate.
pub mod Fits
pub mod FromBytes
