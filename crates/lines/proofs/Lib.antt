-- Laws of this crate.
pub mod Inside
pub mod Small
