pub mod Calls
pub mod Examples
pub mod Help
pub mod Parts
pub mod Rows
pub mod Values
