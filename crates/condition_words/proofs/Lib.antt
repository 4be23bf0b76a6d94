pub mod Letters
pub mod Stretching
pub mod Sameness
pub mod Literals
