pub mod Events
pub mod Fields
pub mod Shown
