pub mod Answers
pub mod Moments
pub mod Numbers
pub mod Planners
pub mod Reading
pub mod Stepped
