pub mod Fronts
pub mod Meanings
pub mod Parted
pub mod Steps
