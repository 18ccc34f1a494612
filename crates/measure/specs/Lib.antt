pub mod Sums
pub mod Runs
pub mod Readings
