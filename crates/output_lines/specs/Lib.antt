pub mod Text
pub mod Carried
