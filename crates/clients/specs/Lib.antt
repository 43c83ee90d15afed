pub mod Firsts
pub mod FourNodes
