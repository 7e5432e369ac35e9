pub mod Task
pub mod Status
pub mod Faults
pub mod Round
pub mod Repeated
pub mod Examples
