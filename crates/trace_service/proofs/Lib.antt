mod Audited
mod Coursed
