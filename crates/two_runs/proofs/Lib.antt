pub mod AuditedLemmas
pub mod ConfirmedLemmas
pub mod DeadheadsOver
pub mod LaidLemmas
pub mod TwoFiles
pub mod WrittenAudited
