-- Laws of the crate, for the functions here and for the crate above.
mod Counted
pub mod Gathered
pub mod ReadyTurn
pub mod Walking
