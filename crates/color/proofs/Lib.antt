pub mod Laws
pub mod Kept
pub mod Changes
