pub mod Demo
pub mod Plans
