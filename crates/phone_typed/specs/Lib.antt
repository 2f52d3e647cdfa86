pub mod Beginnings
pub mod Carets
pub mod Fields
pub mod KeyedFields
pub mod Keys
pub mod Printed
pub mod Steps
pub mod Typed
