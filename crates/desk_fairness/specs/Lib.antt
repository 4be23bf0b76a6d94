pub mod Events
pub mod Demand3
pub mod Lasting
