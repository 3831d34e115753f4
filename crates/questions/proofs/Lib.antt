-- Laws and theorems of this crate.
mod AcceptedRight
mod AskedChain
mod ChainShown
mod CoreListed
pub mod Determined
pub mod Given
