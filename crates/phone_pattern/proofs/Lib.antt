pub mod Marks
pub mod Matches
pub mod ReadTexts
pub mod Refused
pub mod Serving
