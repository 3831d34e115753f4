-- Definitions of this crate.
pub mod Counters
pub mod Kinds
pub mod Pairs
pub mod Stored
