pub mod Bounds
pub mod Members
pub mod Held
pub mod First
pub mod Whole
pub mod OneStep
pub mod Unique
