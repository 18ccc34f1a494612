pub mod Calls
pub mod Schedule
pub mod Claim
pub mod Fades
