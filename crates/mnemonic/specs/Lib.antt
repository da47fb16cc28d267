pub mod Held
pub mod Line
pub mod Placing
pub mod Spelling
