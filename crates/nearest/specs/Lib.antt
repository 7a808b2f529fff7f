pub mod Answer
pub mod Correct
pub mod Nearest
