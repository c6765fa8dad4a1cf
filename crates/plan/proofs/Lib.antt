pub mod Laws
pub mod Places
pub mod Reports
pub mod Said
