pub mod Delay
pub mod Ends
pub mod Longest
pub mod Sides
pub mod Spent
pub mod Waiting
