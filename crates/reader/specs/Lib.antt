-- Definitions of this crate.
pub mod Places
