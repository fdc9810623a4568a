pub mod EndLemmas
pub mod ListLemmas
pub mod LookedLemmas
pub mod SettleLemmas
pub mod TreesLemmas
