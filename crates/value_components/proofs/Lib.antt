pub mod SignedNumbers
pub mod SpanParts
pub mod PartsGiven
pub mod Answers
pub mod FieldsBy
