pub mod Forms
pub mod Laws
pub mod Machine
pub mod Planners
pub mod Standing
