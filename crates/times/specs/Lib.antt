-- Definitions of this crate.
pub mod Hyperperiod
pub mod PointTests
pub mod Points
pub mod Releases
pub mod Rounds
