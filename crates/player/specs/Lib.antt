pub mod Shown
pub mod Steps
