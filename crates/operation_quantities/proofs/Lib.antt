pub mod Spanned
pub mod Bounded
pub mod Given
pub mod Numbers
