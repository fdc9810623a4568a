pub mod Names
pub mod Prefer
pub mod Desk
pub mod Terminals
pub mod Tolerances
pub mod Settings
pub mod Selected
