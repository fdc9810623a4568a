pub mod BlocksMade
pub mod CostLemmas
pub mod FilesWritten
pub mod FitWalk
pub mod LinesWritten
