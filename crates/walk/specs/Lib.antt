pub mod Cards
pub mod Kind
pub mod Status
pub mod Walk
