pub mod Looking
pub mod Weights
pub mod RowTests
pub mod Answers
