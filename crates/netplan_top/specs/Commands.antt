-- What each command says of an input.
pub mod Faults
pub mod Check
pub mod Expand
pub mod Solve
pub mod Demo
pub mod Answers
