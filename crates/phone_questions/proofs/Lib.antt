pub mod Cuts
pub mod GroupLengths
pub mod Lengths
pub mod Lettered
pub mod Verdicts
