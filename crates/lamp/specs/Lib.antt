pub mod Valid
pub mod Making
pub mod Answers
pub mod InRange
pub mod Passes
pub mod Calls
