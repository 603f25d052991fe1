mod Found
mod Finding
mod Assembled
mod Entries
mod Flipping
mod Kept
mod Ready
mod Entering
mod Answering
mod Naming
mod Once
mod Excluding
pub mod Beside
