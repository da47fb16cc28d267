pub mod Kept
pub mod Masks
pub mod Property3
pub mod Shown
