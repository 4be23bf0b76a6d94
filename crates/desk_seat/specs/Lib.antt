-- The definitions that a seat's contracts cite.
pub mod Files
pub mod Request
pub mod Conditions
pub mod Bounds
pub mod Answers
pub mod Seat
pub mod Soundness
pub mod Serving
pub mod TurnsLeft
pub mod Carried
