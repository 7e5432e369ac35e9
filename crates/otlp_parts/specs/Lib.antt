pub mod ReadAs
pub mod Embedded
pub mod Found
pub mod Texts
pub mod Kept
pub mod Parts
pub mod Sizes
pub mod Urls
