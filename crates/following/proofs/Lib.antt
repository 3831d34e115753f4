-- Laws of the crate, for the functions here and for the crates above.
mod AllBack
pub mod Backwards
pub mod Chains
pub mod Each
pub mod Ends
mod GoneBack
pub mod Paces
pub mod Starts
pub mod Tasks
