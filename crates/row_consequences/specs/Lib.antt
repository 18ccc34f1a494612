pub mod RowTogether
