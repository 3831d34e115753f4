-- Definitions of this crate.
pub mod Images
