pub mod Blocks
pub mod Fulfilled
pub mod Headline
pub mod Same
