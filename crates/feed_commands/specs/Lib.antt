pub mod Deficits
pub mod Fixed
