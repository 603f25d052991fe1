pub mod Trees
pub mod Arcs
pub mod Nets
pub mod Parts
pub mod Drains
pub mod Alones
