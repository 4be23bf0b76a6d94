pub mod Output
pub mod Joined
pub mod Carried
