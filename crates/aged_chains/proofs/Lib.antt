-- Laws of this crate, for the function here and for the crates above.
mod ChainAged
pub mod FirstPeriods
