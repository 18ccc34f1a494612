pub mod Budget
pub mod Examples
pub mod Laws
