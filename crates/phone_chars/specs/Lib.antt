pub mod Characters
pub mod Cuts
pub mod Norm
pub mod Viable
