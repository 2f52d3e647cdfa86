pub mod Complete
pub mod EachKind
pub mod Refused
pub mod Suited
