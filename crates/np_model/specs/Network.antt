-- Networks with gains: what a flow is, and what shows it least.
pub mod Arcs
pub mod Flows
pub mod Duality
pub mod Nets
