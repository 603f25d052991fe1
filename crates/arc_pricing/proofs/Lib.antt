pub mod Eligibility
pub mod Order
