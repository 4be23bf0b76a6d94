pub mod Halves
pub mod Steps
pub mod Lengths
pub mod Valid
pub mod Undo
pub mod Still
pub mod Reach
