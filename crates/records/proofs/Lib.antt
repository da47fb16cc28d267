pub mod Offsets
pub mod Formats
pub mod Written
