pub mod Arena
pub mod Loans
