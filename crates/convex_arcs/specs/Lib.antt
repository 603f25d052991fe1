pub mod Segments
pub mod Gathered
pub mod Filled
pub mod Schemes
