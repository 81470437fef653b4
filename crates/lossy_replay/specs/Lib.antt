pub mod Linked
pub mod Lines
pub mod Ways
pub mod Replay
pub mod Linking
