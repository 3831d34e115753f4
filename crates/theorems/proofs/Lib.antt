-- The three demands, a file for each, and more for the ages and for the text; every statement is proved by citing.
pub mod Demand1
pub mod Demand2
pub mod Demand2Ages
pub mod Demand2Text
pub mod Demand3
mod HandedOut
