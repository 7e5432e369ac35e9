pub mod Numbered
pub mod Law
