pub mod Wholes
pub mod FormLaws
pub mod Answers
