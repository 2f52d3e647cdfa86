pub mod AnswerLemmas
pub mod Carried
pub mod ReadLemmas
pub mod RunLemmas
pub mod WriteLemmas
