pub mod Chains
pub mod Fleet
pub mod Shifts
pub mod Step
