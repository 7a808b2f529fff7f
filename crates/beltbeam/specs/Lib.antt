pub mod Beltbeam
