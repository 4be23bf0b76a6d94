pub mod Within
pub mod Instants
pub mod Locals
pub mod TwoParts
pub mod PlacedBy
pub mod Years
