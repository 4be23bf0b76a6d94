pub mod Widths
pub mod Writing
