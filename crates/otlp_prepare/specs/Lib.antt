pub mod Arrivals
pub mod Prepared
pub mod BodySpans
