pub mod Boards
pub mod Joined
pub mod Lines
