-- Definitions of this crate.
pub mod Linked
pub mod Parts
