pub mod Numbers
pub mod Readings
