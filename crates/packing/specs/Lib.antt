-- Definitions of this crate.
pub mod Inked
