pub mod Answers
pub mod Evaluate
pub mod Lane
pub mod Loans
