pub mod Joined
pub mod Choice
pub mod Causes
pub mod Front
pub mod Tried
pub mod Deeper
pub mod Basis
pub mod Lowest
