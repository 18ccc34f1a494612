pub mod Names
pub mod Notices
pub mod Numerals
