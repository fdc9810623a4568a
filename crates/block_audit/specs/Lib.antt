pub mod Above
pub mod Laws
pub mod Misfits
pub mod Stated
