pub mod Record
pub mod Refusal
