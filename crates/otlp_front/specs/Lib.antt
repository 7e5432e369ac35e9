pub mod Target
pub mod Law
pub mod Fields
pub mod Route
pub mod Seen
pub mod Passes
