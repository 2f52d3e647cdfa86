pub mod Borders
pub mod Keys
pub mod Lasts
