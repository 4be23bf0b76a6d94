pub mod Reach
pub mod Answers
pub mod OrderLaws
