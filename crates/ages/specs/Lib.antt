-- Definitions of this crate.
pub mod Ages
pub mod Paths
