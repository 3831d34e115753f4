-- Laws of this crate.
pub mod FieldsPut
pub mod Inking
pub mod Words
