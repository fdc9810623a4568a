pub mod AcceptedLemmas
pub mod Given
