pub mod Built
pub mod Emitted
