pub mod Fields
pub mod Laws
pub mod Plain
pub mod StopTimes
pub mod Texts
pub mod Trips
