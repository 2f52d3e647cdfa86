pub mod Cores
pub mod Fronts
pub mod Records
