-- Laws of this crate.
pub mod ArraysTaken
pub mod Determined
