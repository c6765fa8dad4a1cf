pub mod Counted
pub mod Emitted
pub mod Forms
pub mod Settled
pub mod Written
