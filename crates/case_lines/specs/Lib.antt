-- Definitions of this crate.
pub mod Lines
