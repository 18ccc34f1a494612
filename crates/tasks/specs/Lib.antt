pub mod Valid
pub mod Runs
pub mod InRange
