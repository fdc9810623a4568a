pub mod Answers
pub mod Drawn
pub mod Moments
pub mod Plans
