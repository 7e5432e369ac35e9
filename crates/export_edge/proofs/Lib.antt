pub mod Throughs
mod Rounds
mod Notes
