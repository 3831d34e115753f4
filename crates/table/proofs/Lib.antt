-- Laws of the definitions, for the crates above and for the functions here.
pub mod Accepted
pub mod ChainRules
pub mod FieldRules
pub mod FillSays
pub mod FirstBytes
pub mod MeetsRules
pub mod Numbers
pub mod Ranges
pub mod Refusals
pub mod Sound
