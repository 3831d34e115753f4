-- Laws of the definitions, for the crates above.
pub mod Alike
pub mod Also
pub mod Checks
pub mod FieldLaws
pub mod FillRead
pub mod FillSays
pub mod Filling
pub mod HeldRead
pub mod Rows
pub mod Stays
pub mod Stricter
pub mod TakenHeld
