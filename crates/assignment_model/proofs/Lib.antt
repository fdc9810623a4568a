pub mod ChoiceLemmas
pub mod Duality
pub mod GreatestPrice
pub mod Looseness
pub mod PathLemmas
pub mod PriceSums
pub mod TightLemmas
