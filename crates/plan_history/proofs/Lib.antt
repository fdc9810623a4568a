pub mod HistoryLemmas
pub mod ItemLemmas
pub mod LedLemmas
pub mod WriteLemmas
