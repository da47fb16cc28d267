pub mod Effect
pub mod Gap
pub mod Range
pub mod Run
pub mod State
pub mod Step
