-- Laws of this crate.
mod BytesFrom
mod BytesInside
