pub mod Entries
pub mod Batches
pub mod First
pub mod Queued
pub mod Whole
