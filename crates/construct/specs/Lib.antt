pub mod Builder
pub mod Cards
pub mod Circuit
pub mod Forms
pub mod Lower
pub mod Pairs
pub mod Scope
pub mod Value
