pub mod Store
pub mod Place
pub mod Start
pub mod Laws
