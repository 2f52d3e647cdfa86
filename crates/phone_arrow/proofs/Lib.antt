pub mod BitLemmas
pub mod TextLemmas
