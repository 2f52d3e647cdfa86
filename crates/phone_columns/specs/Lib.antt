pub mod Bodies
pub mod Calls
pub mod Cells
pub mod Columns
pub mod Known
pub mod Rows
pub mod Texts
