pub mod Float
pub mod Same
pub mod Sums
pub mod Table
pub mod Tree
pub mod Values
