pub mod Prices
pub mod Candidates
pub mod Laws
