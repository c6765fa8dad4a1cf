pub mod All
pub mod Rising
pub mod Count
pub mod Part
pub mod Whole
pub mod Passes
pub mod Checked
