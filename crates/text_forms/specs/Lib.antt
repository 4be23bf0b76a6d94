pub mod Forms
pub mod Carried
