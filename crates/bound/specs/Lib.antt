pub mod Bounds
pub mod Lists
pub mod Paths
pub mod Walk
pub mod Text
