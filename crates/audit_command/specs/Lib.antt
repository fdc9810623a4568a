pub mod Audit
pub mod Auditable
pub mod Lines
