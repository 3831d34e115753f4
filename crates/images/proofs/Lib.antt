-- Laws of the reader, for the crates above and for the functions here.
pub mod Asked
pub mod Determined
pub mod WholeImage
