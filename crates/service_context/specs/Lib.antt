pub mod Post
pub mod Work
pub mod Looks
