-- Laws of this crate.
mod ChainPeriods
pub mod Determined
