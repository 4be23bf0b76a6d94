pub mod Marked
pub mod Blanks
