pub mod Atlases
pub mod Owned
pub mod Places
