pub mod Events
pub mod Gap
pub mod Machine
pub mod Power
pub mod Property2
pub mod Pulses
pub mod Report
pub mod Table
