pub mod Chunks
pub mod Flows
pub mod Lengths
pub mod Reach
pub mod Successors
pub mod Naming
pub mod Answer
pub mod Ways
