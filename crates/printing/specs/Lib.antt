-- Definitions of this crate.
pub mod Printed
pub mod Words
