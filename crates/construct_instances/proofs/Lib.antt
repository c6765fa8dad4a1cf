pub mod Circuit
pub mod Down
pub mod Fits
pub mod Loops
pub mod Respects
pub mod Steps
pub mod Turns
pub mod Up
