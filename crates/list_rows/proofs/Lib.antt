pub mod Edges
pub mod Fits
pub mod Going
pub mod Grown
pub mod Lending
pub mod Seamless
pub mod Steps
pub mod Turns
