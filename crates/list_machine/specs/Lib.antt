pub mod Begin
pub mod Heard
