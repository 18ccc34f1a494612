mod Found
mod Signs
pub mod Carried
pub mod Laws
pub mod Examples
