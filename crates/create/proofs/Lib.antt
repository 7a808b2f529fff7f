pub mod CreatedPasses
pub mod NeighboursDiffer
mod Accepted
mod AllWithin
mod Counts
mod Divisible
mod Lengths
mod Limits
