pub mod AlikeLemmas
pub mod FieldLemmas
pub mod NumberedLemmas
pub mod OrderLemmas
pub mod UnitLemmas
