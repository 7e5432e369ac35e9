pub mod Origins
pub mod Bodies
pub mod Entries
