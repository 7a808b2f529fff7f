pub mod IntersectCorrect
pub mod ReplySays
mod Flat
