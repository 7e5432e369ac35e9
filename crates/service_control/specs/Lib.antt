pub mod Comings
pub mod Commands
pub mod Directed
pub mod Control
pub mod Fault
