pub mod Limits
pub mod Counts
pub mod Uses
pub mod Kept
