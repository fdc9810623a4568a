pub mod Folds
pub mod Mending
pub mod SignedSums
pub mod Spans
pub mod Totals
pub mod UnitNodes
pub mod UpAndDown
