pub mod Abroad
pub mod Dialled
pub mod Kept
pub mod Keys
pub mod Lettered
pub mod Mobile
pub mod Original
pub mod Texts
