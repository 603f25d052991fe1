-- What only steps of the reader and proofs need.
pub mod Tables
pub mod Supply
pub mod Reading
pub mod Writing
