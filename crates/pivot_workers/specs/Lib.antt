-- Workers at a table of pieces.
pub mod Forests
pub mod Openings
pub mod Takes
pub mod Stale
pub mod Attempts
pub mod Sweeps
pub mod Work
pub mod Rounds
pub mod Laws
pub mod SweepLaws
pub mod Steps
