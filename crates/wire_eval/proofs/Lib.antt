pub mod Running
pub mod Valuing
