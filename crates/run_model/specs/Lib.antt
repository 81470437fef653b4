pub mod Fate
pub mod Members
pub mod Order
pub mod Parts
pub mod Sizes
pub mod LinkEvents
pub mod Meaning
pub mod Serialises
