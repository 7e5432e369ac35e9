pub mod Ids
pub mod Stored
pub mod Equal
pub mod Read
pub mod Pool
