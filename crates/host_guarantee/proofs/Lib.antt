pub mod Delay
pub mod Property3
