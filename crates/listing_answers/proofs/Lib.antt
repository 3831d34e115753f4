-- Laws of this crate.
mod Listed
