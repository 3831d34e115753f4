-- Laws and theorems of this crate.
pub mod Further
pub mod PrintedExample
pub mod Starred
