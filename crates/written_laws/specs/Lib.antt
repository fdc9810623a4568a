pub mod Follows
pub mod Found
pub mod Laws
pub mod PlanLaws
pub mod Planned
pub mod Written
