pub mod History
pub mod Items
pub mod Stands
