-- The search over the basic arcs of a piece, by places in its lists.
pub mod Places
pub mod Search
pub mod Finding
pub mod Outwards
