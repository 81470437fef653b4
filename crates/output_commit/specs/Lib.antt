pub mod Batches
pub mod Commit
pub mod Kept
pub mod Laws
pub mod Spans
