pub mod Chains
pub mod Trail
pub mod Walk
