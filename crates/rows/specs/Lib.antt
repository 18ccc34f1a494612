pub mod Rows
pub mod Mask
pub mod RowTable
pub mod Inner
