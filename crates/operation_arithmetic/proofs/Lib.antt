pub mod Opposites
pub mod Differences
pub mod Validity
pub mod Undoing
pub mod Turning
pub mod Numbers
