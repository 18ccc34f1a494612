pub mod Ascii
pub mod Written
pub mod Buffers
pub mod Digits
pub mod Words
pub mod Numbers
pub mod Pairs
pub mod Readers
