pub mod Tenants
pub mod Came
pub mod Admitted
pub mod Below
pub mod Answered
pub mod Changed
