-- Definitions of this crate.
pub mod Advanced
pub mod Tallies
