pub mod Blocks
pub mod Lines
mod Narrow
