pub mod Hashed
pub mod Registered
