-- The rows of arithmetic: their operations in order, and which of them overflows.
pub mod Arcs
pub mod Prices
pub mod Moving
pub mod Extra
pub mod Potentials
pub mod Directions
