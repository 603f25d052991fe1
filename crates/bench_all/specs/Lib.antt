pub mod Nodes
pub mod Shapes
pub mod Visits
