pub mod Journal
pub mod Keep
pub mod Kept
pub mod Replay
pub mod Replayed
