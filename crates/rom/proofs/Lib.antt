pub mod Fetching
pub mod RoundTrip
pub mod Rule
