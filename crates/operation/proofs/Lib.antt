pub mod Validity
pub mod Keeping
pub mod Differences
pub mod TimeLaws
pub mod Numbers
pub mod Cases
