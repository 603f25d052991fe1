pub mod KnownFacts
pub mod ListFacts
pub mod Turns
