pub mod Bytes
pub mod Example
pub mod Printed
pub mod Records
pub mod Walked
pub mod Written
