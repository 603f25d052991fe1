-- The potentials of a piece: what is promised of them, and the operations along its steps.
pub mod Answers
pub mod Along
