pub mod Among
pub mod FirstRefusal
pub mod NearestCorrect
pub mod OneMore
pub mod SameRecord
mod Curves
mod LeafSays
