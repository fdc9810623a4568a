pub mod ChainsLemmas
pub mod FleetLemmas
pub mod ShiftsLemmas
