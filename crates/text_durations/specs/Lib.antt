pub mod Walks
pub mod Carried
pub mod Spelling
