pub mod Holds
pub mod Lengths
