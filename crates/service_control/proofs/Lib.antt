mod Answered
mod Directed
mod Heard
mod Present
pub mod Standing
mod Joined
