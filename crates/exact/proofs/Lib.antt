pub mod Cursor
pub mod Naturals
pub mod Rounds
pub mod Small
pub mod Tests
pub mod Whole
