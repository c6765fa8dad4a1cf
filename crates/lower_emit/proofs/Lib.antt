pub mod Copied
pub mod Counted
pub mod Lists
pub mod Made
