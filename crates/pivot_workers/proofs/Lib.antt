-- The lemmas of workers.
pub mod States
mod Grabs
mod Places
mod Forest
mod Needs
mod Right
mod Tries
mod Answering
mod Named
mod Several
pub mod Dealt
pub mod Crews
pub mod Slots
pub mod Rounds
mod Naming
mod NeededOnce
mod Unique
mod Swept
