pub mod Basis
pub mod Create
pub mod Shape
