pub mod Numbers
pub mod Text
