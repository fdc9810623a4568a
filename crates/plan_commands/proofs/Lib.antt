pub mod Charted
pub mod ClaimPapers
pub mod Given
pub mod ProvedLemmas
