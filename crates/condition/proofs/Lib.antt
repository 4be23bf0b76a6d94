pub mod Accepted
pub mod Ways
pub mod Readable
pub mod OpenNumbers
pub mod FieldsAlone
pub mod Answers
pub mod ByTree
