-- Laws of this crate.
pub mod ByLabels
pub mod NothingDue
pub mod OfLabel
pub mod OfTable
pub mod Putting
