pub mod Chosen
pub mod Described
pub mod IdLemmas
pub mod Loading
pub mod Rising
pub mod Soles
pub mod Tokens
