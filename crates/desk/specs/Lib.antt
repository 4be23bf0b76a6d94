-- The definitions that the desk's contracts cite.
pub mod Bounds
pub mod Scan
pub mod Answers
pub mod Seats
pub mod Soundness
pub mod Desk
pub mod Carried
