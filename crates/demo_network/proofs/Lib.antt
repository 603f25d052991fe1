pub mod Lists
pub mod NameFacts
pub mod FlowFacts
pub mod Valid
pub mod Staging
pub mod Feasible
pub mod NoRay
