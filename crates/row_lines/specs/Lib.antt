pub mod Sums
pub mod RowAnswers
pub mod RowLines
