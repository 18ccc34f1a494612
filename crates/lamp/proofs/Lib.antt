pub mod Shared
pub mod Kept
pub mod Laws
pub mod InRangeKept
pub mod Passed
