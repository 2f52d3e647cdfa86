pub mod Answers
pub mod Books
pub mod Firsts
pub mod Keys
pub mod Samples
