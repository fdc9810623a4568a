pub mod Lowering
pub mod Trial
