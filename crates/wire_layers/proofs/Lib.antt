pub mod Largest
pub mod Low
