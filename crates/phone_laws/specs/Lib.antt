pub mod AreaCodes
pub mod Fitting
