pub mod Lists
pub mod Keeps
pub mod Numbers
pub mod Examples
pub mod Instances
