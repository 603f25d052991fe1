pub mod Calls
pub mod Faults
pub mod Input
pub mod MemoryForms
pub mod Streams
