-- Definitions of this crate.
pub mod LabelMasks
