mod Ranges
mod Symbols
mod Refusals
