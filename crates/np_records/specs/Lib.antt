pub mod Records
pub mod Texts
pub mod Names
pub mod Rows
pub mod Faults
