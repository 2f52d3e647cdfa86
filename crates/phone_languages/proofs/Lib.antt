pub mod Loading
pub mod NameFiles
pub mod OfTables
