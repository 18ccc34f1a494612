pub mod Enums
pub mod Fields
pub mod Moves
pub mod Records
pub mod Answers
