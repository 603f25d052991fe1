pub mod Walk
pub mod Proves
pub mod Laws
pub mod Words
pub mod Steps
