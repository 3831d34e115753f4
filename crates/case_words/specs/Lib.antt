-- Definitions of this crate.
pub mod Words
