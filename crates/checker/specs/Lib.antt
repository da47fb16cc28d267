pub mod Marks
pub mod Trail
pub mod Verdicts
pub mod Walk
pub mod Ways
