pub mod Bytes
pub mod Fold
pub mod Forest
pub mod Told
pub mod Tree
