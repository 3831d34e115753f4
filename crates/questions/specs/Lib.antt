-- Definitions of this crate.
pub mod Answers
pub mod Parts
pub mod Questions
