pub mod Facts
pub mod Reading
pub mod Shown
pub mod Fields
pub mod Canonical
pub mod Short
