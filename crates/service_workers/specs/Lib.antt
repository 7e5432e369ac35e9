pub mod Jobs
pub mod Assignment
