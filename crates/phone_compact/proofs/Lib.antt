pub mod Injective
pub mod Lists
pub mod Numbers
pub mod Refused
pub mod Texts
