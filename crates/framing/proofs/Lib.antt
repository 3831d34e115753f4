-- Laws of this crate.
mod PutFrames
pub mod Ended
