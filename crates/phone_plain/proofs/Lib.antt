pub mod Classing
pub mod Counting
pub mod Branching
pub mod Grouping
pub mod Parting
