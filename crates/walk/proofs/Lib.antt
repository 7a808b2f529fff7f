pub mod Rules
mod Flat
mod Steps
