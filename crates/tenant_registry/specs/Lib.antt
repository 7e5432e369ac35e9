pub mod Noted
pub mod InForce
pub mod Roster
pub mod Documents
pub mod NotAdded
pub mod Replies
pub mod Changed
pub mod Retried
