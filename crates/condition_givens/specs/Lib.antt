pub mod Data
pub mod Carried
