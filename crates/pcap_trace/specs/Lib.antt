pub mod Format
pub mod Header
pub mod Packets
pub mod Reading
pub mod Records
pub mod Refused
