pub mod RemainingTime
pub mod Examples
