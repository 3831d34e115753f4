-- Definitions of this crate.
pub mod Sums
