pub mod Origin
pub mod Arrivals
pub mod Prepared
pub mod Equal
