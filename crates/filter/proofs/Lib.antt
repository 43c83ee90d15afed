pub mod Waiting
pub mod Turned
