pub mod Orders
pub mod Shares
pub mod Gathered
pub mod Numbered
pub mod Law
