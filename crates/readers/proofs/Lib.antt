-- Laws of readers fields, for the crates above.
pub mod Counted
pub mod First
pub mod InTurn
mod Leading
pub mod Masks
pub mod Rest
pub mod Walk
