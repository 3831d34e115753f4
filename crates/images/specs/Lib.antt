-- Definitions of this crate.
pub mod Parts
pub mod TableShown
