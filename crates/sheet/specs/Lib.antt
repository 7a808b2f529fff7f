pub mod Answer
pub mod Lines
pub mod Sheet
pub mod Written
