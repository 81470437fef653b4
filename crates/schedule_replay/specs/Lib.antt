pub mod Ended
pub mod Frames
pub mod Replayer
