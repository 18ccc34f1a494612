pub mod Laws
pub mod Numerals
