pub mod Numbers
pub mod Settled
pub mod Clashes
