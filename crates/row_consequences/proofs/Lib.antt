pub mod RowTogether
pub mod Examples
