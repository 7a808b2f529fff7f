pub mod Numbers
mod Passes
pub mod Transposed
