pub mod Carried
pub mod Steps
pub mod Falls
pub mod Wholes
