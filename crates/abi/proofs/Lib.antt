pub mod Arms
pub mod Inverse
pub mod Kept
pub mod RoundTrip
