-- Laws of this crate.
mod Bodies
mod FieldsFilled
