-- What only proofs and steps of the operations need.
pub mod Coprime
pub mod Odd
pub mod Signs
pub mod Found
