pub mod Changes
pub mod Holds
pub mod Leaves
pub mod Lines
pub mod NextMaximum
