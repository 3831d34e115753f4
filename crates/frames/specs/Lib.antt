-- Definitions of this crate.
pub mod Counts
pub mod Ready
pub mod Walk
