-- Definitions of this crate.
pub mod PairPoints
pub mod Parts
