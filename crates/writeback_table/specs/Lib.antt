pub mod Batches
pub mod Codes
pub mod Commands
pub mod Pair
pub mod Seen
pub mod Staging
pub mod Views
pub mod Widths
