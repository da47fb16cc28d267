pub mod Text
pub mod Words
pub mod Operand
pub mod Read
