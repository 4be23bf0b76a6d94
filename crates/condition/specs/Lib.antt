pub mod Condition
pub mod Laws
pub mod Carried
