pub mod Emit
pub mod Settle
pub mod Written
