-- Definitions of this crate.
pub mod FieldsRead
