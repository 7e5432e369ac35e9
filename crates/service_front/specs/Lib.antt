pub mod Lines
pub mod CommandReply
pub mod Figures
pub mod Pages
