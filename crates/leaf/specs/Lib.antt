pub mod Found
pub mod Leaf
pub mod Record
