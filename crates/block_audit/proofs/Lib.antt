pub mod AboveLemmas
pub mod Fitting
pub mod Grouping
pub mod Lateness
pub mod Sorted
pub mod StatedLemmas
pub mod StepsLemmas
