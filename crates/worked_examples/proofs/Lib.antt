pub mod Claim
pub mod Lists
pub mod LampAnswers
pub mod Runs
pub mod Busy
pub mod Validity
pub mod Making
pub mod NewBounds
