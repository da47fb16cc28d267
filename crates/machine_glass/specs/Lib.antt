pub mod Glass
