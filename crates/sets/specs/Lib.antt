pub mod Sets
pub mod Stepping
pub mod Making
pub mod Combining
pub mod Operations
pub mod Ones
