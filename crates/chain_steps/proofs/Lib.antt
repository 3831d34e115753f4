-- Laws of this crate.
mod ChainSteps
pub mod LabelSearch
mod Linking
mod StepSearch
