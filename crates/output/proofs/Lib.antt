pub mod Lengths
pub mod Left
pub mod Ready
pub mod TurnLines
pub mod Joining
pub mod Telling
pub mod Cases
pub mod Amounts
