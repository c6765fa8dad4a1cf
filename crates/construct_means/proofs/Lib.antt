pub mod Circuit
pub mod Same
pub mod Sizes
pub mod Stop
