pub mod Cards
pub mod Exact
pub mod Folds
pub mod Local
pub mod Only
