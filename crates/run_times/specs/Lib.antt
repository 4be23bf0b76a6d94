pub mod Occurrences
pub mod Laws
pub mod Carried
