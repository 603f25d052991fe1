pub mod Links
pub mod Results
pub mod Rounds
pub mod Carried
pub mod Whole
pub mod Settings
