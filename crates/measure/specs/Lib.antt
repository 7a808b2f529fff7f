pub mod Area
pub mod Bound
pub mod Price
