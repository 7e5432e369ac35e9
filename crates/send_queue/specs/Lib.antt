pub mod Sender
pub mod View
pub mod Inside
