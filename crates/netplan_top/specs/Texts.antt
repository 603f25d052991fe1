-- The texts that the program prints. Each is a list of records, as `csv` writes them one after the other.
pub mod Frame
pub mod Checked
pub mod Network
pub mod Demo
