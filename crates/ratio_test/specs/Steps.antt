pub mod Ends
pub mod Soonest
