pub mod Forms
pub mod Passing
pub mod Places
pub mod Program
pub mod Read
pub mod Shapes
pub mod Statement
pub mod Text
