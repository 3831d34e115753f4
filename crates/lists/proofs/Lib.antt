-- Laws of the definitions, for the crates above.
pub mod All
pub mod Below
pub mod Bools
pub mod Each
pub mod Last
pub mod Lists
pub mod Over
pub mod Padded
pub mod SomeOf
pub mod SomeTold
pub mod Sums
