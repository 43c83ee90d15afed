pub mod Digits
pub mod Counts
pub mod Rows
pub mod Cursors
