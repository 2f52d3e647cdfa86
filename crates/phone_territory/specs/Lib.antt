pub mod First
pub mod Kinds
pub mod Layouts
pub mod Prefixes
pub mod Records
pub mod Refusals
