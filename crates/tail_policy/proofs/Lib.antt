mod Lists
mod Joined
mod Asked
