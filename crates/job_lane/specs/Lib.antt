pub mod Lane
pub mod Rule
pub mod Law
