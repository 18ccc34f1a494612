pub mod Lent
pub mod Sums
pub mod Turns
pub mod Wholes
