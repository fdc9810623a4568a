pub mod Given
pub mod JudgedLemmas
