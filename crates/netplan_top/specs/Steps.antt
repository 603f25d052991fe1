-- What only steps of the commands need.
pub mod Options
pub mod Stops
pub mod Judged
pub mod Solved
pub mod Endings
