-- Laws of the definitions.
mod Tallied
pub mod Turn
