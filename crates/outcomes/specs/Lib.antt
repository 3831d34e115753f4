-- Definitions of this crate.
pub mod Outcome
