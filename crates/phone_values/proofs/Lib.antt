pub mod Digits
pub mod Finds
pub mod Names
pub mod ReadBack
pub mod Texts
