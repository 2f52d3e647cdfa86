pub mod Behind
pub mod Layouts
pub mod Tabbed
pub mod Texts
