pub mod Gap
pub mod Property2
pub mod Refused
pub mod Wrapper
