-- Definitions of this crate.
pub mod Columns
pub mod Parts
