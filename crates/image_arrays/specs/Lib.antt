-- Definitions of this crate.
pub mod ArraysShown
