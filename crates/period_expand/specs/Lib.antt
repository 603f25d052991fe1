pub mod Expansion
pub mod Places
pub use Rattle.np_model.specs.Scheme.Plans
