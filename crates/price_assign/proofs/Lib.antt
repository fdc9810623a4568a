pub mod PlanLemmas
pub mod RightLemmas
