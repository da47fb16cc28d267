pub mod Choice
pub mod Code
pub mod Reading
pub mod Timing
pub mod Views
