-- Definitions of this crate.
pub mod TakenTo
