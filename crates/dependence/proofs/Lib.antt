mod Ahead
pub mod MarkedPlaces
pub mod PlacedCode
pub mod PreSets
mod GuardMarks
mod UserLists
mod PostSets
mod Deep
mod Least
pub mod Present
pub mod Laws
