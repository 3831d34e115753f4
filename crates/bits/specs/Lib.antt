-- Definitions of this crate.
pub mod Bits
pub mod Found
pub mod Packing
