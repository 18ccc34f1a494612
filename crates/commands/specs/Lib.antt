pub mod Commands
pub mod Answers
pub mod Table
pub mod Unchanged
pub mod StepLimits
pub mod Ties
pub mod NewBounds
pub mod Inner
