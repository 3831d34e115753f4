-- Definitions of this crate.
pub mod Lists
