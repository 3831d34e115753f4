-- Definitions of this crate.
pub mod Written
