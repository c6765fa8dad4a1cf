pub mod Answer
pub mod Compile
pub mod Encode
pub mod Lending
