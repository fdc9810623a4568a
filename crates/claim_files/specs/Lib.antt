pub mod Blocks
pub mod Claims
pub mod Lines
pub mod Prices
pub mod Running
pub mod Written
