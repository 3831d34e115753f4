-- Definitions of this crate.
pub mod Counting
