mod Kept
mod Plain
