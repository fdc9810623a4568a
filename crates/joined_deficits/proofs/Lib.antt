pub mod BoardsWritten
pub mod Dropping
pub mod EntriesLemmas
pub mod LegLemmas
pub mod LinesWritten
pub mod Meeting
pub mod Theorem
