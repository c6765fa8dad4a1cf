pub mod Entries
pub mod Every
pub mod Fill
pub mod Sets
pub mod Tests
