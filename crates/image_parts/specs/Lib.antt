-- Definitions of this crate.
pub mod Parts
