pub mod Below
pub mod Lists
mod Interval
pub mod Told
