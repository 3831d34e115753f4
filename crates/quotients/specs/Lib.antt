-- Definitions of this crate.
pub mod Inverses
pub mod Paces
