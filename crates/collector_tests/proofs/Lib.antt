pub mod OnLiterals
mod Small
