pub mod Shapes
pub mod Pictures
pub mod Reading
pub mod Drawing
pub mod Text
pub mod Laws
pub mod Walk
