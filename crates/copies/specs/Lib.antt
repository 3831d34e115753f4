-- Definitions of this crate.
pub mod Copies
pub mod Listing
pub mod Plans
