-- Definitions of this crate.
pub mod Reading
