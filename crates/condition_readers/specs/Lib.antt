pub mod Lengths
pub mod Meaning
pub mod Carried
