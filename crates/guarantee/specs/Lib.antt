pub mod Property3
pub mod Reports
pub mod Table
