pub mod Canonical
pub mod Dropped
pub mod KeepLemmas
pub mod ReplayLemmas
pub mod Replays
