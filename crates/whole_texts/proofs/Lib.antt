-- Laws of this crate.
mod AgesSmall
mod ChainsSmall
pub mod Lengths
pub mod Outcomes
