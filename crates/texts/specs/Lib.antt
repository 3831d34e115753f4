-- Definitions of this crate.
pub mod Puts
