-- Laws of masks, for the crates above.
pub mod Bitwise
pub mod Counted
pub mod First
pub mod OfLabels
pub mod Rising
