pub mod Loans
pub mod Slots
pub mod Steps
pub mod Whole
pub mod Work
