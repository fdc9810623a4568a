pub mod Choice
pub mod Paths
pub mod Prices
pub mod Tight
