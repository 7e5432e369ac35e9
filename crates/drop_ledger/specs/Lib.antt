pub mod Ledger
pub mod Report
