pub mod Directions
pub mod Records
pub mod Links
pub mod Refusals
pub mod Printed
