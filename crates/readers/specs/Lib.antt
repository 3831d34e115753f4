-- Definitions of this crate.
pub mod NextReader
