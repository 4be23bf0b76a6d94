pub mod Cases
pub mod StandsFor
pub mod Laws
pub mod Carried
