pub mod Chain
pub mod Wiring
pub mod Compose
pub mod Laws
