pub mod Alu
pub mod Memory
pub mod Timer
