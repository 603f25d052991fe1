-- What only this crate's own functions and proofs need.
pub mod Held
pub mod Visits
pub mod Grabs
pub mod Given
