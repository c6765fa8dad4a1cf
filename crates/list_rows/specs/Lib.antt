pub mod Left
pub mod Listing
pub mod Rows
