pub mod Builder
pub mod Lasts
pub mod Running
pub mod Runs
pub mod Steps
pub mod Table
