-- What the checker's own functions compute on the way, and no public contract speaks of.
pub mod Arcs
pub mod Parts
