pub mod Writable
pub mod Write
