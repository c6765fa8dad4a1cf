pub mod Cells
pub mod Plan
