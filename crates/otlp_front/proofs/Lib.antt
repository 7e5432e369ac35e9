mod Texts
mod Paths
mod Names
mod Plain
mod Cases
pub mod Usual
