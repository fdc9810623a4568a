pub mod FilledLemmas
pub mod FreeLemmas
pub mod TakenLemmas
pub mod NamingLemmas
pub mod NumberedLemmas
pub mod MostLemmas
pub mod StepLemmas
pub mod StatedLemmas
