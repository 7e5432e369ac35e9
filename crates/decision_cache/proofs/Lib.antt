pub mod Lists
pub mod Same
pub mod Entries
pub mod Hits
