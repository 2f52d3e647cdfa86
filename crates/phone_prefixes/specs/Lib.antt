pub mod Loads
pub mod Marks
pub mod Nodes
pub mod Refusals
pub mod Spans
pub mod Tables
