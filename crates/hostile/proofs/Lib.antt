pub mod Literals
pub mod Zeros
