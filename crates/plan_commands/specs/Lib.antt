pub mod Chart
pub mod Check
