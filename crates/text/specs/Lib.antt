pub mod Ascii
pub mod Bytes
pub mod Digits
pub mod Put
