pub mod Refusal
pub mod Validate
