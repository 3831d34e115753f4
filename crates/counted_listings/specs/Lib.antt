-- Definitions of this crate.
pub mod Listed
