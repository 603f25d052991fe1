pub mod Grows
mod Standing
mod Sound
