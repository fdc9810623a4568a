pub mod PairsLemmas
pub mod RuleLemmas
pub mod ShareLemmas
