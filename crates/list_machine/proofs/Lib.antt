pub mod Begins
pub mod Heard
pub mod Room
pub mod Rows
