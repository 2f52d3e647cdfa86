pub mod Doubts
pub mod Fronts
pub mod Lettered
pub mod Spreadsheets
pub mod Valid
pub mod Words
