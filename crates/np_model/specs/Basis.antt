-- Bases of a network: full networks, pieces, states and pivots.
pub mod Graphs
pub mod Artificial
pub mod Phases
pub mod Pieces
pub mod States
pub mod Starts
pub mod Moves
pub mod Pivots
pub mod Sound
pub mod Needed
pub mod Attempts
