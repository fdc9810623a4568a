pub mod BlocksLemmas
pub mod ColumnsLemmas
pub mod DeficitsLemmas
pub mod StepsLemmas
