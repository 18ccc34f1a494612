pub mod Cases
pub mod Claim
