pub mod Calling
pub mod Copied
pub mod Filling
pub mod Query
