pub mod Padding
pub mod Conditions
pub mod Soundness
pub mod Serving
pub mod TurnsLeft
