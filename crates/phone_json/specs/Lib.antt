pub mod Faults
pub mod Fields
pub mod Records
pub mod Told
