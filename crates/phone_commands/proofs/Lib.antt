pub mod AskedLemmas
pub mod FirstLemmas
pub mod FoundLemmas
pub mod MatchLemmas
pub mod MemoryLemmas
pub mod PairLemmas
pub mod TypedLemmas
