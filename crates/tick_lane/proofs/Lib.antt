pub mod Accepted
pub mod Above
pub mod Cells
