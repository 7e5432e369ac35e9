pub mod Asked
mod Read
