-- Definitions of this crate.
pub mod Digits
pub mod Numbers
