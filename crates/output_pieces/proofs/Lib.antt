pub mod Starting
pub mod Leaving
