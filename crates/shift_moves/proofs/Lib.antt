pub mod Counting
pub mod Holding
pub mod Sizes
pub mod Untouched
