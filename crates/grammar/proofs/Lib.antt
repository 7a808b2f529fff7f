pub mod Floats
pub mod Heads
pub mod Lines
pub mod Runs
