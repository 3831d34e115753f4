-- Laws of this crate.
mod Readers
