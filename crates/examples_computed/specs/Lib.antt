pub mod Choices
pub mod Claims
pub mod Edits
pub mod Feeds
pub mod Names
