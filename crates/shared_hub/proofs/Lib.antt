mod Building
mod Sparing
mod Closing
