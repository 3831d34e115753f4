-- Laws of this crate.
pub mod AcceptedRound
pub mod Determined
