pub mod Kept
pub mod NeverThrough
pub mod OffTarget
pub mod Together
pub mod Instances
pub mod Examples
