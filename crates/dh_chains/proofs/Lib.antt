pub mod Adding
pub mod Branches
pub mod Effects
pub mod EndsLemmas
pub mod Held
pub mod LinesLemmas
pub mod Maxima
pub mod Routes
