pub mod Inputs
pub mod Called
pub mod Replay
pub mod Promise
pub mod Replayer
