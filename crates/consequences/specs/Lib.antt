pub mod Together
pub mod NeverThrough
pub mod OffTarget
