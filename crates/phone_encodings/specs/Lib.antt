pub mod Decodings
pub mod Encodings
pub mod FirstUnits
pub mod Marks
pub mod Unfinished
