pub mod Ascii
pub mod Norms
pub mod Runs
pub mod Signed
pub mod Trims
pub mod ViableRows
pub mod Walks
