pub mod Abouts
pub mod Answers
pub mod Commands
pub mod Operands
pub mod Programs
pub mod Statuses
pub mod Streams
