pub mod Evaluation
pub mod Carried
pub mod Fitting
pub mod Numbers
