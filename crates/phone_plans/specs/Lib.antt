pub mod CodeLookUps
pub mod Forms
pub mod Index
pub mod Lasts
pub mod Records
pub mod Refusals
pub mod Texts
