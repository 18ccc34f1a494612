pub mod Line
pub mod Reading
pub mod Text
pub mod Examples
