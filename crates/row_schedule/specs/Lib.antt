pub mod RowCalls
pub mod RowClaim
