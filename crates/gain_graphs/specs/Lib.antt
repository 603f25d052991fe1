pub mod Field
pub mod Arcs
pub mod QuasiTrees
pub mod Forests
pub mod Bases
pub mod Cycles
pub mod Laws
