pub mod All
pub mod Each
pub mod Every
pub mod Fill
