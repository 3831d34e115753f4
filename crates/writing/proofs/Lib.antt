-- Laws of the definitions, for the crates above.
pub mod AcceptedExactly
pub mod LargestImage
pub mod LargestReached
pub mod PartsHeld
pub mod PartsRead
pub mod ReadOfWritten
pub mod SameParts
pub mod UsedEntries
pub mod WrittenOfRead
