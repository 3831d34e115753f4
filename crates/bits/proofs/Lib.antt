-- Laws and theorems of this crate.
pub mod Bytes
pub mod BytesOf
pub mod Determined
pub mod FieldLaws
pub mod Fields
pub mod Held
pub mod HowMany
pub mod Reached
pub mod ReadBack
pub mod Written
pub mod WrittenParts
