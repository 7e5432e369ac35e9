mod Draws
mod Members
mod Going
mod Comings
mod Runs
