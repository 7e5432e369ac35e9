mod Around
mod Spans
mod Whole
