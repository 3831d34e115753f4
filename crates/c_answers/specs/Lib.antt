-- Definitions of this crate.
pub mod Said
