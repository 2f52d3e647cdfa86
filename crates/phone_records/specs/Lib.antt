pub mod Empty
pub mod Kinds
pub mod Members
pub mod Missing
