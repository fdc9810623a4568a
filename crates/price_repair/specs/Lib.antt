pub mod Cut
pub mod Repaired
pub mod Without
