pub mod Exact
pub mod List
