pub mod Runs
pub mod Slot
pub mod Seats
pub mod Hub
pub mod Keepers
