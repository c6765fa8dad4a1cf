pub mod Contracts
pub mod Demands
