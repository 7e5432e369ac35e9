pub mod Recent
pub mod Ids
pub mod Caches
pub mod Law
