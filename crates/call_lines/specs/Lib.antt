pub mod Commands
pub mod Calls
pub mod Leaves
pub mod Setters
pub mod Lines
