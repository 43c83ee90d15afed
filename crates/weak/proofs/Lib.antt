pub mod Apart
pub mod Hashing
pub mod Registering
pub mod Releasing
