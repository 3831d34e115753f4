-- Laws of the crate, for the crates above.
pub mod Counted
mod Extremes
pub mod OfTable
pub mod Once
pub mod Reached
pub mod Repeats
pub mod Rising
pub mod Valve
