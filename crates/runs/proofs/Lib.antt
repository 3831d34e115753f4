-- Laws and theorems of this crate.
pub mod Between
pub mod ByBytes
pub mod Controls
pub mod Copied
pub mod CopiesSuffice
pub mod CoresAside
pub mod Errors
pub mod FrameCopies
pub mod Held
pub mod NoJobCanTell
pub mod Pair
pub mod SamePlan
pub mod SameReads
