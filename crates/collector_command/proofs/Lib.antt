mod Options
mod Tokens
