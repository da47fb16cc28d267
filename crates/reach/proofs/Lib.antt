pub mod Back
pub mod Chains
pub mod Count
pub mod Distance
pub mod Naming
pub mod Once
pub mod Trace
pub mod Turn
