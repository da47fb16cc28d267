pub mod Addresses
pub mod Runs
pub mod Answers
pub mod Filling
pub mod Levels
pub mod Loops
pub mod Turn
pub mod Worst
