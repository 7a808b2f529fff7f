pub mod Cut
pub mod Moved
