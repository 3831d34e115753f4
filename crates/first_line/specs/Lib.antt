-- Definitions of this crate.
pub mod FirstLine
