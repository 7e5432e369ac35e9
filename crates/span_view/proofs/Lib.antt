pub mod Walks
pub mod Shallower
pub mod Parts
pub mod Messages
pub mod Told
pub mod Values
pub mod FieldsTold
pub mod Short
