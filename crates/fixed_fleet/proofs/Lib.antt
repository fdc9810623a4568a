pub mod FirstInFirstOut
pub mod Forerunners
pub mod Fronts
pub mod LeastNumber
pub mod PlainBlocks
