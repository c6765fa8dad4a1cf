pub mod Left
pub mod One
