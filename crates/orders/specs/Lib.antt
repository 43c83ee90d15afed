pub mod Wording
pub mod Laying
pub mod Lines
pub mod Naming
pub mod Unread
