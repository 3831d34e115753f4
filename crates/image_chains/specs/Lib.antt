-- Definitions of this crate.
pub mod PeriodsShown
pub mod Taken
