pub mod Audited
pub mod Confirmed
