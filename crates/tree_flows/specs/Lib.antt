-- The direction of an entering arc: what is promised of it, and the operations along the steps of a piece.
pub mod Answers
pub mod Along
pub mod Walks
