pub mod WriteLaws
pub mod DigitLaws
pub mod WordLaws
pub mod NumberLaws
pub mod PairLaws
pub mod Places
pub mod BufferLaws
