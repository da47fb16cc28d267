pub mod Cases
pub mod Padding
