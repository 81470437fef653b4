pub mod Source
pub mod Counts
pub mod Order
pub mod Told
pub mod Walk
pub mod Refused
