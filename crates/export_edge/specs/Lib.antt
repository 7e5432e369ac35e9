pub mod Posting
pub mod Work
pub mod Dialing
pub mod Law
