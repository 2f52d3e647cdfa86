pub mod Atoms
pub mod Bytes
pub mod Grammar
pub mod Reads
pub mod Classes
pub mod Counts
pub mod Plain
