pub mod Audit
pub mod Whole
