pub mod ChosenLemmas
pub mod LikingsLemmas
pub mod ListingLemmas
pub mod StartLemmas
