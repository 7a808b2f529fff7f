pub mod Arith
pub mod Basic
pub mod Narrow
pub mod Root
pub mod Whole
