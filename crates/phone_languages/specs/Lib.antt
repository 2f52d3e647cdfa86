pub mod Atlases
pub mod Locales
pub mod NameTables
pub mod Told
