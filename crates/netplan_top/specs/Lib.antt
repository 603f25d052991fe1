pub mod Words
pub mod Texts
pub mod Commands
pub mod Run
pub mod Steps
