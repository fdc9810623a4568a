pub mod Keeper
pub mod MemoryKeeper
