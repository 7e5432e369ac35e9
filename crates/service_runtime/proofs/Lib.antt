pub mod Lines
pub mod Unread
pub mod Talked
pub mod Put
pub mod Rising
