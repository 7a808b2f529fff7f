pub mod Best
pub mod Calls
pub mod Kept
pub mod Layout
pub mod Lent
pub mod Set
