-- The driver of pivots.
pub mod Store
pub mod Homes
pub mod Rounds
pub mod Picks
pub mod Found
pub mod Turns
pub mod Runs
pub mod Budgets
pub mod Opening
