pub mod Check
pub mod Format
pub mod Hex
pub mod Reports
pub mod Text
pub mod Whole
