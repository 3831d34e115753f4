-- Definitions of this crate.
pub mod Next
