-- Definitions of this crate.
pub mod BytesPlan
pub mod Controls
pub mod Errors
pub mod FramePlan
pub mod Moved
pub mod Runs
pub mod Sufficing
