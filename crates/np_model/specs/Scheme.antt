-- Planning problems over periods, and plans of them.
pub mod Names
pub mod Kinds
pub mod Segments
pub mod Valid
pub mod Parts
pub mod Convex
pub mod Plans
pub mod Verdicts
pub mod Fits
