-- Definitions of this crate.
pub mod Image
pub mod Refusals
pub mod Rules
pub mod Shown
pub mod Table
