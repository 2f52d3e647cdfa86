pub mod ListedCodes
pub mod Nodes
pub mod Orders
