pub mod Parted
pub mod Lines
pub mod Fields
pub mod Rows
pub mod Carried
