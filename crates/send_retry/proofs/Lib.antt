pub mod Equals
pub mod Replies
pub mod Statuses
