pub mod Lists
pub mod Went
