pub mod Gap
pub mod Lent
pub mod Property2
