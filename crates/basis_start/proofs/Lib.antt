pub mod Residuals
pub mod Artificial
