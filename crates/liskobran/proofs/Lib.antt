-- Laws of this crate.
mod Whole
