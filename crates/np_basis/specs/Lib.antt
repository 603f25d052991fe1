pub mod Laws
pub mod PivotLaws
