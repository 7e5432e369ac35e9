mod Places
pub mod Jobs
mod Received
mod Rising
mod Given
