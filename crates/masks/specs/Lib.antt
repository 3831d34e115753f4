-- Definitions of this crate.
pub mod Masks
pub mod Rising
