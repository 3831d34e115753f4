-- Laws of this crate.
mod FramesPut
