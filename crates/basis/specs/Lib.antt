pub mod Choice
pub mod Answer
pub mod Letters
pub mod Exactly
