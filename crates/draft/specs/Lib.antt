pub mod Drafting
pub mod State
pub mod Walked
