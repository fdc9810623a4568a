pub mod Certificate
pub mod Claim
pub mod Onward
pub mod Reasons
