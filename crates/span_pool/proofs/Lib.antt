pub mod Unread
pub mod Viewed
