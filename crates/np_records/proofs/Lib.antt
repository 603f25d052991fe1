pub mod Scan
pub mod ReadingFacts
pub mod FieldFacts
pub mod TextFacts
pub mod Places
pub mod NameFacts
pub mod FaultFacts
pub mod NumberFacts
