pub mod Sample
pub mod Summed
