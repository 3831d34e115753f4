-- Laws of the crate, for the functions here and for the crates above.
mod Begins
mod FourInstants
mod Inside
mod PathTurns
mod Reached
mod Stretches
mod Takes
mod Turns
