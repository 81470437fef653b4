pub mod Count
pub mod Packets
pub mod Schedule
pub mod Summary
pub mod Translator
