pub mod Words
pub mod Places
mod Found
pub mod Kept
pub mod Lines
pub mod Long
pub mod Ran
pub mod Sent
pub mod Going
pub mod Equal
pub mod Plain
pub mod OnLiterals
