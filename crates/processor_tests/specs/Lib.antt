pub mod Views
pub mod Policies
pub mod BatchTexts
pub mod Ledgers
pub mod Senders
pub mod Parts
pub mod Rows
