-- Laws of this crate.
mod Below
mod LabelAdded
mod OneMore
