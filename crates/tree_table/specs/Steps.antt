-- What only this crate's own functions and proofs need.
pub mod Tokens
pub mod Kept
pub mod Room
pub mod Closing
