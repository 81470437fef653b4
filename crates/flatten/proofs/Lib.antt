pub mod Growth
pub mod Journals
pub mod Steps
pub mod Trees
pub mod GoodSizes
pub mod Branches
pub mod Views
pub mod ScopeKept
pub mod Meanings
pub mod Writes
pub mod Written
pub mod Whole
pub mod FormedPieces
pub mod Formed
pub mod FormedWhole
mod Handed
pub mod Laws
