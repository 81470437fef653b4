pub mod Texts
pub mod Kept
pub mod Tallies
pub mod Objects
pub mod Shown
pub mod Laws
