-- Laws and theorems of this crate.
pub mod Fitting
pub mod NumbersFit
pub mod TakenBack
