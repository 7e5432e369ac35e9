pub mod Class
pub mod Delay
pub mod Law
