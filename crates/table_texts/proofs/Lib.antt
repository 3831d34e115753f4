-- Laws of this crate.
pub mod EachPut
mod ListingLong
pub mod Room
