pub mod Seen
pub mod Tested
pub mod Faulty
