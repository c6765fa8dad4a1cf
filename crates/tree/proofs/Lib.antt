pub mod Answer
pub mod Lengths
pub mod Stack
pub mod Turn
