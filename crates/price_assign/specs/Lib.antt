pub mod Found
pub mod Plans
