pub mod Errors
pub mod Faults
