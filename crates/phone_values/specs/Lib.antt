pub mod Codes
pub mod Ids
pub mod Kinds
pub mod Nsn
pub mod Numbers
pub mod Refusals
pub mod Validations
