-- Laws of this crate.
mod FourStored
