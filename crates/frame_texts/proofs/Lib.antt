-- Laws of this crate.
pub mod CopiesPut
