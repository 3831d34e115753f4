-- Definitions of this crate.
pub mod Example
pub mod Further
pub mod Images
pub mod Kinds
pub mod Starred
pub mod Texts
