-- Definitions of this crate.
pub mod Due
pub mod Kinds
pub mod Puts
