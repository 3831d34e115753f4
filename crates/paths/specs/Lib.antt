-- Definitions of this crate.
pub mod Walks
