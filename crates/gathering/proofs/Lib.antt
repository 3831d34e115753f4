-- Laws of the definitions.
pub mod Codes
pub mod InArray
pub mod MetTasks
pub mod Walk
