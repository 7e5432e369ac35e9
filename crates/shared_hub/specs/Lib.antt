pub mod Shards
pub mod Logs
pub mod Fault
