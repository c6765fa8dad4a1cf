pub mod Went
pub mod Begun
