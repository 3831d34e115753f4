-- Laws of the crate, for the crates above.
pub mod AtZero
pub mod NextFrom
pub mod NextInRound
pub mod NextPublishing
pub mod NextReading
