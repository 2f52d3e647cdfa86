pub mod Answered
pub mod LaidTexts
pub mod Originals
pub mod Ruled
pub mod Steps
