pub mod Chains
pub mod Ends
pub mod Lines
pub mod Search
