pub mod Positions
pub mod Given
pub mod Mixing
pub mod Comparing
pub mod Skipping
