pub mod Turns
pub mod Carried
