pub mod Table
pub mod Blanks
