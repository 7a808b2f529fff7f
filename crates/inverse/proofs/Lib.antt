mod Lines
mod Reduced
mod Rows
mod Taken
mod Turns
