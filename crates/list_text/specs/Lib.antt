pub mod Line
pub mod Outer
