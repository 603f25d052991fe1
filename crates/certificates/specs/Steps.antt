-- What only steps of the reader and of proofs need.
pub mod Claims
pub mod Amounts
pub mod Texts
pub mod Writing
pub mod Certifying
