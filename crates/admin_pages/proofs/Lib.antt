pub mod Field
pub mod Joined
pub mod Numbers
pub mod Pieces
pub mod Read
pub mod Asked
pub mod Told
