pub mod Limits
pub mod Asked
pub mod Answers
pub mod Steps
pub mod Laws
