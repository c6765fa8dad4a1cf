pub mod Circuit
pub mod Held
pub mod Lending
pub mod Storage
pub mod Terms
