pub mod Filters
pub mod Turning
