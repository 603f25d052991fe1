pub mod Network
pub mod Scheme
pub mod Basis
pub mod Rows
pub mod Steps
pub use Rattle.np_frac.specs.Ratio
pub use Rattle.np_frac.specs.Exact
