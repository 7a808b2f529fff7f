pub mod Decimal
pub mod DigitsBack
pub mod Hex
pub mod Places
pub mod Puts
pub mod Words
