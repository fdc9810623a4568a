pub mod Given
pub mod ReadAgain
