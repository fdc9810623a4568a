pub mod Computed
pub mod Counts
pub mod Desk
pub mod Follow
pub mod Repair
pub mod Standing
