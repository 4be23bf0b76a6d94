pub mod Counts
pub mod Passing
pub mod Verdicts
pub mod OnSpans
pub mod Cases
