-- Laws of this crate.
mod PointsOf
mod WithinArrays
