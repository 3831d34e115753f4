-- Definitions of this crate.
pub mod Following
