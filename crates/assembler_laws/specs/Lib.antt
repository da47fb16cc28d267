pub mod Fixed
pub mod Grammar
pub mod Lines
pub mod Printed
pub mod Syntax
pub mod Unique
