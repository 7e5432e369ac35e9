mod Lists
mod Read
mod Empty
mod Adding
mod Gathered
mod Grouped
mod Joined
mod Valued
