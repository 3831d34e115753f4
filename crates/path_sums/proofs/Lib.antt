-- Laws of this crate.
pub mod SumsMore
