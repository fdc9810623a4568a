pub mod DeficitsLemmas
pub mod Held
pub mod LeavesLemmas
pub mod LinesLemmas
pub mod RowLemmas
