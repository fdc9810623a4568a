pub mod MaxPrefix
pub mod MaxPrefixLaws
pub mod Nodes
pub mod Reaching
pub mod Summary
