pub mod Setters
pub mod Valid
pub mod Making
pub mod Changes
pub mod Bounded
