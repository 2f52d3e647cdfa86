pub mod AnswerLemmas
pub mod FirstLemmas
pub mod KeyLemmas
pub mod Keyed
