pub mod Layouts
pub mod Lines
pub mod Templates
