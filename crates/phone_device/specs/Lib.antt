pub mod Kept
pub mod Limits
pub mod Passing
pub mod Scripts
